pub mod Newest
pub mod Steps
pub mod Stands
pub mod Sides
pub mod WireStands
pub mod Places
pub mod Passing
