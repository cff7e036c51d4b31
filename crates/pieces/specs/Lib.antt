pub mod Pair
pub mod Cursors
pub mod Pieces
