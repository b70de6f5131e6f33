pub mod Tests
pub mod Ranks
pub mod Nodes
pub mod Writing
