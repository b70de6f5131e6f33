pub mod Applying
pub mod Valuing
pub mod Reaching
