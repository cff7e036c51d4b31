pub mod Month
pub mod Narrow
pub mod Promises
