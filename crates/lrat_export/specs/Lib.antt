pub mod Cnf
pub mod Export
pub mod Laws
pub mod Rows
pub mod Numbers
pub mod Walk
pub mod Conflict
pub mod Table
