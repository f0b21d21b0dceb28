pub mod Example
pub mod InputLaws
pub mod LineRows
pub mod ListingLaws
pub mod Room
pub mod TextLaws
