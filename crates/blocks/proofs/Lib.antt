-- What the proofs of several functions use.
mod Rows
mod Loads
