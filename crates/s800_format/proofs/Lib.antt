pub mod Formats
pub mod Tags
