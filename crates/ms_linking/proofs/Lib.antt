pub mod Told
pub mod Opcodes
pub mod Fixed
pub mod Linking
pub mod Order
