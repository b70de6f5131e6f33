pub mod Examples
pub mod TurnedRuns
