pub mod Stations
pub mod MessageRanges
pub mod Accepted
pub mod Drawn
pub mod Places
