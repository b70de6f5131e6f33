pub mod Chains
pub mod Inside
pub mod Joins
pub mod Parts
