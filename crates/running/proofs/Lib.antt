pub mod Going
pub mod Leaving
