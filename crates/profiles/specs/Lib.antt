-- Definitions: Profiles.
pub mod Profiles
