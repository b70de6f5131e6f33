pub mod Columns
pub mod Comparing
