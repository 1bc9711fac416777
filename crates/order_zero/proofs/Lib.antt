-- What the proof of the reading uses.
mod OrderZero
