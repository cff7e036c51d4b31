mod Digits
mod Telling
mod Steps
mod Examples
pub mod Laws
