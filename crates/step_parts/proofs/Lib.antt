pub mod Marking
pub mod Fragments
pub mod Conditions
pub mod Passing
