pub mod Exist
pub mod Promises
