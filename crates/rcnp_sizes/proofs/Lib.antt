pub mod Readings
pub mod Writings
