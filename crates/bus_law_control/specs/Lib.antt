pub mod Answers
pub mod Waiting
pub mod Offers
pub mod Abandoning
pub mod Keeping
pub mod Silent
