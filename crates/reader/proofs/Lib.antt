pub mod Concluding
pub mod Decided
