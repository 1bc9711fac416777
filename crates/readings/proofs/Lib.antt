-- What the proofs of several functions use.
mod Flips
mod Directions
mod Turns
