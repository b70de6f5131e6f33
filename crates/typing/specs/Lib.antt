pub mod Cycle
