pub mod Lists
pub mod Watches
pub mod Walk
pub mod Propagation
pub mod Entrance
pub mod Rebuild
pub mod Laws
