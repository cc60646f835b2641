pub mod Codes
pub mod Forms
pub mod Plans
pub mod Accepted
pub mod Logs
pub mod Readings
pub mod Times
