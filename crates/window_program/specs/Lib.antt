pub mod Received
pub mod Turns
