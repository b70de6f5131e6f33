pub mod Working
pub mod Pairing
pub mod Turning
pub mod Choosing
