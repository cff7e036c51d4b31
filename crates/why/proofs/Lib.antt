mod Sides
mod Squares
mod Listed
mod Bringing
mod Records
mod Blocks
mod Tables
pub mod Examples
pub mod Laws
