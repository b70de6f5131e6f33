pub mod Rows
pub mod Sizes
pub mod Soundness
pub mod Fragments
pub mod Roots
pub mod FieldLaws
pub mod Turns
