pub mod Refusals
pub mod Audits
pub mod Inside
