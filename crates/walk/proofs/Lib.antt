mod Walks
pub mod Laws
