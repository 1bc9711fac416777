-- What the proofs of the loops share.
pub mod Turns
pub mod VoteLoops
