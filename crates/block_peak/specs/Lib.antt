-- Definitions: Sought. Laws: QuadPeaks.
pub mod Sought
pub mod QuadPeaks
