pub mod Stack
pub mod Moves
