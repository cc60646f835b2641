pub mod Stations
pub mod Happened
