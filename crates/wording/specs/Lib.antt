pub mod Wording
pub mod Answers
