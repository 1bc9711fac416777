-- Definitions: Alike. AlikeLaws is a law.
pub mod Alike
pub mod AlikeLaws
