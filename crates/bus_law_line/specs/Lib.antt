pub mod Shown
pub mod Senders
