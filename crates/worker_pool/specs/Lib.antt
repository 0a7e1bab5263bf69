pub mod Course
pub mod Exploring
pub mod Pens
pub mod Workers
pub mod Handing
pub mod Outcomes
