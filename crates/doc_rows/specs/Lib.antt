pub mod Nested
pub mod Sound
pub mod Ranks
pub mod Fields
pub mod Answers
