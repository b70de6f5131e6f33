pub mod Accepting
pub mod Parsing
pub mod Callers
pub mod Skipping
