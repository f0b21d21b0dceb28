pub mod Lines
pub mod Vectors
pub mod Widths
pub mod Text
pub mod Runs
