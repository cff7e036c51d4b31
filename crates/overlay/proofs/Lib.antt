mod Joins
mod Blocks
mod Pairs
mod Meets
mod Views
pub mod Examples
pub mod Laws
