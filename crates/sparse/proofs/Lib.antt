mod Found
pub mod Over
pub mod Laws
