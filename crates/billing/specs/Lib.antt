-- What the functions ask: Accepted. The rest are laws.
pub mod Accepted
pub mod MessageLines
pub mod AnswerLaws
