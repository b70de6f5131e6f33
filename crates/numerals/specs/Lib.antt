pub mod Numerals
pub mod Texts
pub mod Answers
