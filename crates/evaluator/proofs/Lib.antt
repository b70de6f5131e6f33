pub mod Calling
pub mod Decided
