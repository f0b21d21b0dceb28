pub mod Words
pub mod Checked
pub mod Apart
pub mod Edges
