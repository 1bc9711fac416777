-- Definitions: Changed.
pub mod Changed
