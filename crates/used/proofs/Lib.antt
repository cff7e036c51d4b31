mod Use
mod Used
mod Tiled
mod Spent
pub mod Laws
