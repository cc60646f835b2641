pub mod Beside
pub mod BothRun
pub mod Rows
