mod Stretched
mod Fitting
mod Bases
mod Around
mod Listed
mod Least
mod Parts
mod Runs
mod Steps
mod Few
mod Walk
mod Examples
pub mod Laws
