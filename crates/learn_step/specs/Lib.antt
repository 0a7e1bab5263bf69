pub mod Reasons
pub mod Learnt
pub mod Places
pub mod Leading
pub mod Analysis
pub mod Pending
pub mod Redundancy
