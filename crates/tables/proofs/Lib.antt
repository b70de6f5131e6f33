pub mod Promise
pub mod Unrolled
pub mod Reading
pub mod Cells
pub mod Climbing
pub mod Laying
pub mod Standing
pub mod Copied
