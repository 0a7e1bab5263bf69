pub mod Sizes
pub mod Shown
pub mod Laws
pub mod Rows
