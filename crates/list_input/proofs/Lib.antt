pub mod Texts
pub mod LineCalls
pub mod Steps
pub mod Turns
