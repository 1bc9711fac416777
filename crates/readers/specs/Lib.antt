-- Definitions: Readers.
pub mod Readers
