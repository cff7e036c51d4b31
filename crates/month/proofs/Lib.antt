mod Clearing
mod Sanity
mod Tables
mod Adding
mod Cells
mod Months
mod Outcomes
pub mod P1
pub mod Examples
pub mod Laws
