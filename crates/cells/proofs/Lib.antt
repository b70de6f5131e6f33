pub mod Tests
pub mod Bits
pub mod Holding
pub mod Cells
pub mod Bytes
pub mod Arithmetic
pub mod Cut
