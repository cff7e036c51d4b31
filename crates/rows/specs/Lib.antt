pub mod Rows
pub mod Growing
pub mod Promises
