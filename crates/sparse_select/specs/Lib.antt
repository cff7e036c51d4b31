pub mod Select
pub mod Asked
pub mod Promises
