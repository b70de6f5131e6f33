pub mod Numbers
pub mod Refusals
pub mod TypedCalls
pub mod ShutOut
pub mod Contracts
pub mod Promises
