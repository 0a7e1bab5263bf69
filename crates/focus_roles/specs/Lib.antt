pub mod Narrow
pub mod Laws
pub mod Told
pub mod Marked
pub mod Rows
