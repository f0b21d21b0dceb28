pub mod Claims
pub mod Comparing
pub mod Differences
