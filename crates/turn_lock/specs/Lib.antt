pub mod Calls
pub mod Seats
pub mod Closings
pub mod Rule
pub mod Moves
pub mod Badges
