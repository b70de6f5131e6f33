pub mod Cell
pub mod Bytes
pub mod Small
pub mod Arithmetic
