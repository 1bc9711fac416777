-- Definitions: Sized. The rest are laws.
pub mod Sized
pub mod SizedLaws
