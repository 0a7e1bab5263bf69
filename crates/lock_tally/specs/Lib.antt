pub mod Tallies
pub mod Works
pub mod Crews
