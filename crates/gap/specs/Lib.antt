-- Definitions: Gap, Calls; inside, Measuring. The rest are laws.
pub mod Gap
pub mod Calls
pub mod Measuring
pub mod Seconds
pub mod SizeLaws
pub mod GapLaws
pub mod CallLaws
