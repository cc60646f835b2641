pub mod Load
pub mod InTime
pub mod Lines
pub mod Silence
pub mod Living
pub mod Offers
