pub mod Blocks
pub mod Inside
pub mod Unsettled
