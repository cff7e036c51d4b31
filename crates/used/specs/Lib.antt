pub mod Used
pub mod Promises
