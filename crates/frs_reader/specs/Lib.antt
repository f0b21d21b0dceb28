pub mod Longword
pub mod Beginning
pub mod Modules
