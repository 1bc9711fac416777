-- PutLaws has laws.
pub mod PutLaws
