pub mod Groups
pub mod Linked
pub mod Laws
pub mod Told
