pub mod Terminals
pub mod Stations
pub mod Worlds
pub mod TakenWords
