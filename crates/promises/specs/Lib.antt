pub mod CallContracts
pub mod Promises
