pub mod Counting
pub mod EventHits
pub mod PageLaws
pub mod Seeing
