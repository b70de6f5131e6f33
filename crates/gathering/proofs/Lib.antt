pub mod Turns
pub mod Gathering
pub mod Passing
