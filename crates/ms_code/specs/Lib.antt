pub mod Opcodes
pub mod Keys
pub mod Instructions
pub mod Codes
pub mod Finds
pub mod Rows
pub mod Laws
