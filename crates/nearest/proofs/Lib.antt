-- What the proofs of several functions use.
mod Values
mod Lent
mod Halves
mod Quarters
