-- What the proofs of the loops share.
pub mod FourParts
pub mod FourTurns
pub mod FourCalls
