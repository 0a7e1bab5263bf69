pub mod Report
pub mod Sorted
pub mod Reports
pub mod Roles
pub mod Rows
