-- Definitions: Tables. What looking a number up promises: Slots. The rest are laws.
pub mod Tables
pub mod Limits
pub mod Slots
