pub mod Extends
pub mod Carried
pub mod Opening
pub mod Laws
pub mod Rows
