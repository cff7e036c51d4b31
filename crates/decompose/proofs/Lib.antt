mod Listing
mod Tables
mod Examples
pub mod Laws
