mod Totals
mod View
mod Areas
mod Parts
mod Gathers
mod Adds
pub mod Laws
pub mod Loops
