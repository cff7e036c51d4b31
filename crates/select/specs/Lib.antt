pub mod Select
