pub mod Exits
pub mod Leaving
