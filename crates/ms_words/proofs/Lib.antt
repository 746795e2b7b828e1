pub mod Places
mod Computed
pub mod Wrapping
pub mod Tree
pub mod Descriptors
pub mod EntryParts
