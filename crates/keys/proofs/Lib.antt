-- What the proofs of several functions use.
mod Digits
mod Sizes
mod Greater
mod Hits
