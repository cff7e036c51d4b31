mod Silent
mod Starts
mod Examples
pub mod Laws
