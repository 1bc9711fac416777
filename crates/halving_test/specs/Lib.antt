-- InPlace has laws.
pub mod InPlace
