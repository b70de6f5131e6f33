pub mod Recording
pub mod Agreeing
pub mod Answering
