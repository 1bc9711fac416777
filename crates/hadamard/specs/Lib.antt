-- Definitions: Correlation; by_digits in LowDigits. What the transform asks: Summable. The rest are laws.
pub mod Correlation
pub mod Summable
pub mod AffineWords
pub mod CorrelationLaws
pub mod Peak
pub mod PeakExt
pub mod Transform
pub mod Spread
pub mod LowDigits
