pub mod Lists
pub mod Sorting
pub mod Rows
pub mod Keyed
pub mod Attempt
pub mod Characters
