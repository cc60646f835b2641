pub mod Breaches
pub mod JudgeTexts
pub mod Stands
pub mod Judged
pub mod Named
