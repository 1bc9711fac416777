-- Definitions: Generator; Drawing has what the functions promise. StepLaws, MessageLaws and PlaceLaws have laws.
pub mod Generator
pub mod Drawing
pub mod StepLaws
pub mod MessageLaws
pub mod PlaceLaws
