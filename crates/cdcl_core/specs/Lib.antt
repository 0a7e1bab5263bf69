pub mod Solver
pub mod Answers
pub mod State
pub mod Search
pub mod Entrance
pub mod Inside
pub mod Forgetting
pub mod Resuming
