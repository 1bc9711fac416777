-- Definitions: Load, Records; Steps has what the inner functions ask and promise. Theorems: LoadLaws, ReadBack; WorkedLoad has a table of values.
-- The rest are laws.
pub mod Load
pub mod Records
pub mod Steps
pub mod LoadLaws
pub mod RecordLaws
pub mod ReadBack
pub mod BlockLaws
pub mod CallLaws
pub mod CaptureLaws
pub mod WorkedLoad
