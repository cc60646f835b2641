pub mod Cuts
pub mod Moments
pub mod Nothing
