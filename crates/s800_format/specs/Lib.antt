pub mod Format
pub mod Tag
