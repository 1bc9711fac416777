-- The lemmas that the proofs share.
pub mod Flipped
