-- Definitions: Counts. Laws: CountLaws.
pub mod Counts
pub mod CountLaws
