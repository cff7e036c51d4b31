mod Picking
pub mod Laws
