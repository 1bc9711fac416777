-- Definitions: Table. The rest are laws.
pub mod Table
pub mod TableLaws
pub mod Meets12
