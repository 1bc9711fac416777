-- What the proof uses.
mod Signs
