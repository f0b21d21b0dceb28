pub mod PadLaws
pub mod Edges
