pub mod Writes
pub mod Numbered
pub mod Halfway
pub mod Parts
