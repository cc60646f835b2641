pub mod AddLaws
pub mod KnownLaws
pub mod NoneLaws
pub mod PairLaws
pub mod SkipLaws
pub mod JudgedLaws
pub mod NamedLaws
