pub mod Bridging
pub mod Answering
pub mod Choosing
