mod Windows
mod Lines
mod Border
mod Tables
mod Loops
pub mod Laws
pub mod Examples
