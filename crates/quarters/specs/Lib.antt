-- Definitions: Quarters. The rest are laws.
pub mod Quarters
pub mod QuadSizes
