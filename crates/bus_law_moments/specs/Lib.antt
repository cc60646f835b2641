pub mod Doubts
pub mod OldAnswers
pub mod Begun
pub mod Told
