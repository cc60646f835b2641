pub mod Tokens
pub mod Scales
pub mod Wires
pub mod Vcd
pub mod Numbers
pub mod Rows
