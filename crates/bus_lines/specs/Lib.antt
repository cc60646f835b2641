pub mod Readers
pub mod Converting
pub mod Words
pub mod Written
pub mod Ends
