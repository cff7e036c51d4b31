mod Pieces
mod Backward
mod Known
mod Examples
pub mod Laws
