pub mod Taking
pub mod LaterTake
pub mod Standing
pub mod Silence
pub mod StandbyTakes
