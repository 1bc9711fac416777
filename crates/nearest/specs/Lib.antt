-- Definitions: Nearest.
pub mod Nearest
