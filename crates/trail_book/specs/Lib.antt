pub mod Trail
pub mod Slots
pub mod Values
pub mod Order
pub mod Heap
pub mod Tables
