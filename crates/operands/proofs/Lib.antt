pub mod Follows
pub mod Bytes
pub mod Stepping
