pub mod Settled
pub mod Commands
pub mod Ends
pub mod Promises
