pub mod Inputs
pub mod Logs
pub mod Standing
pub mod Takeover
pub mod Lines
pub mod Without
