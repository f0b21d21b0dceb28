pub mod Faults
pub mod Parts
