mod Steps
mod Making
mod Table
mod Filling
mod Mends
mod Forms
mod Going
mod Taking
mod Along
mod Answered
mod Result
mod Each
mod Early
mod Gaps
mod Painted
pub mod Laws
pub mod Examples
