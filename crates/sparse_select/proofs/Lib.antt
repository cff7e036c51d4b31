mod Made
mod Pieces
mod Merged
mod Block
mod Laid
mod Window
mod Plain
mod Cases
mod Merging
mod Walking
mod Asking
mod Fewest
pub mod Examples
pub mod Laws
