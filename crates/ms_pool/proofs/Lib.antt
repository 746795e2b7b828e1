pub mod Example
pub mod Faults
pub mod Entries
pub mod Again
pub mod Lists
pub mod Pools
mod Slots
mod Placing
mod Whole
mod Linked
mod Parts
pub mod Placed
