-- What the proofs of several functions use.
mod Whole
mod Calls
