-- What the decoder's functions ask and promise: Runs, Verdicts.
pub mod Runs
pub mod Verdicts
