pub mod RestLaws
pub mod TellLaws
pub mod WordLaws
pub mod PieceLaws
pub mod TakingLaws
pub mod ReadLaws
