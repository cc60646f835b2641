pub mod Plain
pub mod Told
pub mod Tables
pub mod Holders
