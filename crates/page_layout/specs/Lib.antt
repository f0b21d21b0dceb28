pub mod Plane
pub mod Page
pub mod Claims
