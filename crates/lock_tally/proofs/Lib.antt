pub mod Callers
pub mod Sums
pub mod Worked
pub mod Crewed
