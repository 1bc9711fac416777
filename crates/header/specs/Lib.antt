-- Definitions: Header. HeaderLaws has its law.
pub mod Header
pub mod HeaderLaws
