pub mod Kinds
pub mod Tokens
pub mod Rows
pub mod Left
pub mod Answers
pub mod Cursor
pub mod Run
