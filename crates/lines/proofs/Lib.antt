pub mod Putting
pub mod Lines
pub mod Kept
pub mod Examples
pub mod SameNo
