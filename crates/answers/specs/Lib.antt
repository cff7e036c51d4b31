pub mod Refusals
pub mod Sizes
pub mod Cells
pub mod After
