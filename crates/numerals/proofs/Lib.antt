pub mod Bytes
pub mod Turns
pub mod Amounts
pub mod Reading
pub mod Splitting
pub mod Words
pub mod Examples
