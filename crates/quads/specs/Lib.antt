-- Definitions: Quads. The rest are laws.
pub mod Quads
pub mod QuadLaws
pub mod FourSigns
pub mod Small
