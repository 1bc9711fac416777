-- What the functions ask and promise.
pub mod Pairs
pub mod Shares
