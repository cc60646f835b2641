pub mod Ranges
pub mod Headers
pub mod Inputs
pub mod Logs
pub mod Lines
pub mod Worlds
pub mod Runs
