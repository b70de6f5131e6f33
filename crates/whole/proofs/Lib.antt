pub mod Copies
pub mod Repeats
pub mod Makes
