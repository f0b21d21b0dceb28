pub mod Example
pub mod Lengths
pub mod Print
pub mod Run
pub mod Text
