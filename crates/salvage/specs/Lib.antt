pub mod Salvage
pub mod Making
pub mod Promises
