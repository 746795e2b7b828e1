pub mod Lists
pub mod Depths
pub mod Growth
pub mod Sets
pub mod Settling
pub mod Inputs
pub mod Entries
pub mod Members
pub mod Listing
pub mod Least
pub mod Reports
pub mod Writing
pub mod Called
pub mod Answered
pub mod Sessions
pub mod Determined
mod Example
