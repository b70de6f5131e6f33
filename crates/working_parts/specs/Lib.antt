pub mod Scopes
pub mod Endings
