pub mod Candidate
pub mod Shrunk
