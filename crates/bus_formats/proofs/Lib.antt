pub mod Slots
pub mod Data
pub mod Commands
