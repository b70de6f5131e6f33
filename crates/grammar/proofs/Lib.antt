pub mod Samples
pub mod WrittenSamples
pub mod Decimals
pub mod Encoding
pub mod Covering
pub mod Spelling
pub mod Writing
pub mod Lengths
