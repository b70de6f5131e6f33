pub mod Suiting
pub mod Ordered
