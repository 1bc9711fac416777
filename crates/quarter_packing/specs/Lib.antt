-- Definitions.
pub mod QuarterSigns
