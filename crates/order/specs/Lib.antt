pub mod Shuffled
pub mod Order
