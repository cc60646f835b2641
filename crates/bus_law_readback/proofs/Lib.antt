pub mod AlikeTerminal
pub mod AlikeStation
pub mod AlikeBus
pub mod CaptureRead
pub mod CallsJoined
pub mod JudgedClean
pub mod CaptureJudged
