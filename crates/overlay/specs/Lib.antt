pub mod Select
pub mod Meeting
pub mod Overlay
