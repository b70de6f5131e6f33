pub mod Parent
pub mod Ancestor
pub mod Preceding
