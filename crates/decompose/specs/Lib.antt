pub mod Decompose
