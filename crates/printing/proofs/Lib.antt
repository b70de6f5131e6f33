pub mod Fitting
pub mod NeverNo
pub mod Joined
