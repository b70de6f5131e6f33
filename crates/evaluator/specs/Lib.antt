pub mod Answers
pub mod Attempts
