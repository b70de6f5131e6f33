pub mod Answers
pub mod Calling
