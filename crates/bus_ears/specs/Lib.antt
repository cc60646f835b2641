pub mod Ears
pub mod Steps
