pub mod Fronts
pub mod Writes
