pub mod Entries
pub mod Memories
pub mod Amounts
pub mod Bounds
pub mod Sent
