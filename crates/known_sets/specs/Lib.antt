pub mod Arena
pub mod Entries
pub mod Refuted
pub mod Making
pub mod Memory
pub mod Inside
