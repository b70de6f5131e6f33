pub mod Recorded
pub mod Moves
pub mod Agreeing
