-- Whole: what a run comes to.
pub mod Whole
