pub mod RowWords
pub mod Faults
pub mod Parts
