-- Definitions: Store, History, Script. The rest are laws.
pub mod Store
pub mod StoreLaws
pub mod History
pub mod Held
pub mod Distinct
pub mod HistoryLaws
pub mod Script
pub mod ScriptLaws
