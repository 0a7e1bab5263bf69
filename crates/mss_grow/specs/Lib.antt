pub mod Growth
pub mod Grown
