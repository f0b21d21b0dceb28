pub mod Rows
pub mod Packets
