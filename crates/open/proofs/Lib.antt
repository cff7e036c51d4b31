mod Accepted
mod Opening
mod Answered
pub mod Examples
mod Room
pub mod Laws
