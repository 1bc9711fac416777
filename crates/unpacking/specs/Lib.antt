-- Definitions: Packed.
pub mod Packed
