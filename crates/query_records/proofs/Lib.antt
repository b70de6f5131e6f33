pub mod Outcomes
pub mod Arms
pub mod Fields
pub mod Callers
