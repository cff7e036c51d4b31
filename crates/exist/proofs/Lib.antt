mod Found
mod Seeking
mod Tables
mod View
pub mod Examples
pub mod Laws
