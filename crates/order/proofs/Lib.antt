pub mod Permuted
pub mod Ties
pub mod Worlds
pub mod Operators
pub mod Runs
pub mod OrderTheorem
pub mod Converse
