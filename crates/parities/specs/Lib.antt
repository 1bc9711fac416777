-- The rule of the sums: Parities. Fours has laws.
pub mod Parities
pub mod Fours
