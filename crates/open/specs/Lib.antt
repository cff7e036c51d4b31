pub mod Open
pub mod Promises
