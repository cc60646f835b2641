pub mod RowLaws
pub mod BurstLaws
