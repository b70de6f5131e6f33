pub mod Counting
pub mod Sorted
pub mod Pass
pub mod Owed
