pub mod Counts
pub mod Sinks
pub mod Shelves
pub mod Histories
pub mod Memory
pub mod Telling
pub mod Folders
