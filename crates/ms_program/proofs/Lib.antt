pub mod Files
pub mod Reading
pub mod Members
pub mod Loading
pub mod Entries
pub mod Covering
pub mod Keys
pub mod Apart
pub mod Picking
pub mod Opcodes
pub mod Standing
pub mod WholeCodes
pub mod Leading
pub mod Firsts
pub mod Subset
pub mod Begun
mod Either
