-- What the functions ask and promise: Steps. Laws: Answers.
pub mod Steps
pub mod Answers
