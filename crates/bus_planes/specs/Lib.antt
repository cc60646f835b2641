pub mod Bits
pub mod Cutting
pub mod Still
