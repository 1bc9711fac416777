-- Definitions: Turns. TurnLaws has the laws.
pub mod Turns
pub mod TurnLaws
