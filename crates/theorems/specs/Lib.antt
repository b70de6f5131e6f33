pub mod Closed
pub mod Counts
pub mod Counted
pub mod Nodes
pub mod PlanBytes
pub mod PlanFields
pub mod PlanWidths
pub mod PlanRead
