-- Laws.
pub mod BlockLaws
