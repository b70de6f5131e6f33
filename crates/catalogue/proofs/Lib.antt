pub mod Turns
pub mod Accepted
pub mod Decided
