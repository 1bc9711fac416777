-- Definitions: Blocks.
pub mod Blocks
