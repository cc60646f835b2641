pub mod Bursts
pub mod Messages
pub mod Undisturbed
