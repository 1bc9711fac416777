-- What the proofs of both functions use.
mod Mended
pub mod DataSheet
pub mod GuaranteeLaws
pub mod Mending
