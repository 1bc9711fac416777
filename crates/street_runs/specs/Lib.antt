-- Definitions: Run. What the inner functions ask and promise: Progress. Theorems: Promises. RunLaws has laws.
pub mod Run
pub mod Progress
pub mod RunLaws
pub mod Promises
