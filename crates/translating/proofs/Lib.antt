pub mod Rooms
pub mod Splitting
pub mod Composing
pub mod Dispatching
