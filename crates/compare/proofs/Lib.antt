pub mod Loops
pub mod Readings
