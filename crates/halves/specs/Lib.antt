-- Definitions: Halves. The rest are laws.
pub mod Halves
pub mod PairNumbers
