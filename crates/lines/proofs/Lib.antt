mod Turns
mod Lengths
mod Refused
pub mod Laws
