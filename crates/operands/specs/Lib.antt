pub mod Going
pub mod Single
