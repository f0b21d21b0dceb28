pub mod Channel
pub mod Groups
pub mod Opening
pub mod Head
