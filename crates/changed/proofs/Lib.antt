-- What the proofs of both functions use.
mod Keeping
