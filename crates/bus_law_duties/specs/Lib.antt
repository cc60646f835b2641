pub mod Words
pub mod Ranges
pub mod Duties
pub mod Offers
