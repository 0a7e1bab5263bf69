pub mod Options
pub mod Reading
pub mod Requests
pub mod Rows
pub mod WrongLines
