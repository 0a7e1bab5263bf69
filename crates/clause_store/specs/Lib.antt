pub mod Clauses
pub mod Links
pub mod Shapes
pub mod Thirds
pub mod Words
pub mod Inner
