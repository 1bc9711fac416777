-- Definitions: Calls. CallLaws has laws.
pub mod Calls
pub mod CallLaws
