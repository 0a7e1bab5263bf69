pub mod Frames
pub mod Reading
pub mod Salvage
pub mod Rows
pub mod Starting
