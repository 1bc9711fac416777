-- Definitions: Settings. SettingLaws and DecimalLaws have the laws.
pub mod Settings
pub mod SettingLaws
pub mod DecimalLaws
