pub mod Walking
pub mod Callers
pub mod Decided
