pub mod RunShows
pub mod WholeRun
pub mod WorldIsRun
pub mod Blocks
