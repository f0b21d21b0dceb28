pub mod Edges
pub mod Exact
pub mod LineLaws
pub mod TextLaws
