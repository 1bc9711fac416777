-- Definitions: Lines. LineLaws has the laws.
pub mod Lines
pub mod LineLaws
