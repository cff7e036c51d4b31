mod Choices
mod Picked
mod Blockwise
mod Chosen
mod Selection
mod View
mod Selects
mod Tables
mod Examples
pub mod Laws
