pub mod Slots
pub mod Sending
pub mod Bursts
pub mod EarLaws
