pub mod Directory
pub mod Sound
