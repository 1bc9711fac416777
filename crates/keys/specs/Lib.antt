-- Definitions: Keys. The rest are laws.
pub mod Keys
pub mod Bytes
