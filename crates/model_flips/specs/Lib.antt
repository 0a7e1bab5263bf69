pub mod Repair
pub mod Rotation
