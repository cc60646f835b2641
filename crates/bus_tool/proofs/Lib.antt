pub mod Answering
pub mod Capturing
pub mod Ending
pub mod Ranges
pub mod Serving
pub mod WrittenLines
pub mod TablesRun
pub mod Surveying
pub mod Benching
mod Loading
mod BridgeEnds
mod RefusedLine
