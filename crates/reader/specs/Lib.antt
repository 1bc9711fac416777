-- Ranks has a law.
pub mod Ranks
