pub mod Messages
pub mod RunStands
pub mod Hands
pub mod Changes
pub mod Leaving
