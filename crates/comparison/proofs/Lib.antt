pub mod Exact
pub mod Entries
pub mod Edges
