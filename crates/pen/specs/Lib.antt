pub mod Penned
pub mod Decimal
pub mod Amounts
