pub mod Silence
pub mod Legs
pub mod Messages
pub mod Turns
