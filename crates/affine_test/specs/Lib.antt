-- Definitions: Marks. Laws: MarkLaws.
pub mod Marks
pub mod MarkLaws
