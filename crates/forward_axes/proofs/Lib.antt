pub mod Itself
pub mod Parents
pub mod Child
pub mod Descendant
pub mod Following
