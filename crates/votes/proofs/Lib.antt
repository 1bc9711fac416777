-- What the proofs of the loops share.
pub mod FourLoops
pub mod VoteCalls
