-- Definitions: Flips.
pub mod Flips
