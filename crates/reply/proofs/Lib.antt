mod Results
mod Steps
mod Examples
pub mod Laws
