pub mod Deliveries
pub mod Printable
