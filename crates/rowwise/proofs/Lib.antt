pub mod Tasks
pub mod Operators
