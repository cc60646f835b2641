pub mod Times
pub mod Rows
pub mod Cleaning
pub mod Anchors
pub mod Following
pub mod Phases
pub mod Bursts
