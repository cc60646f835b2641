pub mod Begun
pub mod Spent
pub mod Samples
pub mod Sent
pub mod Rows
pub mod WordSlots
