mod Sizes
mod Windows
pub mod Laws
