pub mod Scoping
