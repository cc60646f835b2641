pub mod Members
pub mod Ordered
pub mod Found
pub mod Words
