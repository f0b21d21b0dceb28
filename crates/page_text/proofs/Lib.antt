pub mod Example
pub mod PageLaws
