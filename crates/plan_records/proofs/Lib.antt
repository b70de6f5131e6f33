pub mod Sized
pub mod Arms
pub mod Columns
pub mod Fields
