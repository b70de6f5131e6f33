pub mod Passing
pub mod Narrowing
