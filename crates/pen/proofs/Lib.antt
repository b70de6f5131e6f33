pub mod Penned
pub mod Putting
pub mod Digits
pub mod Magnitudes
pub mod Amounts
