pub mod BadLaws
pub mod RowLaws
pub mod TableLaws
pub mod LineLaws
pub mod NoteLaws
pub mod FlawLaws
