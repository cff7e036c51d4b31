pub mod Why
pub mod Parts
pub mod Promises
