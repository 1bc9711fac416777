-- Definitions: Affine. The rest are laws.
pub mod Affine
pub mod Blocks
