pub mod CallerLaws
pub mod ReplyLaws
pub mod EqualityLaws
