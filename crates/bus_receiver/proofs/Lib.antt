pub mod Hearing
pub mod Rests
