pub mod Fresh
pub mod Selectors
pub mod Late
pub mod Inside
