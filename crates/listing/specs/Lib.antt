pub mod Example
pub mod Input
pub mod Lengths
pub mod Listing
pub mod Text
