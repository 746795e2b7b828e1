pub mod Terms
pub mod Nodes
pub mod Values
