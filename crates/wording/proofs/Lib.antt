pub mod Laying
pub mod Writing
pub mod Concluding
pub mod Decided
