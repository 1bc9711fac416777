-- What rounds and readings ask and promise: Polls, Readings. The rest are laws.
pub mod Polls
pub mod PollLaws
pub mod LeafLaws
pub mod AnswerLaws
pub mod Readings
pub mod Answers
