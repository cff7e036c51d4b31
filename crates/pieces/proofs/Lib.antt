mod Cursors
mod Whole
mod Pieces
mod Tallies
mod Sights
mod Reports
mod Findings
mod Sparse
pub mod Examples
pub mod Laws
