pub mod Totals
pub mod Gather
