mod Named
mod Squares
mod Standing
mod Bits
mod Powers
mod Spans
mod Digits
mod Blocks
mod Joined
mod Levels
mod Pixels
mod Zeros
mod Corners
mod Ends
mod Places
mod Around
mod Strips
mod Reading
mod Upward
mod Downward
mod Along
mod Here
mod Examples
pub mod Laws
pub mod Loops
