mod Rows
mod Over
mod Meaning
pub mod Laws
