pub mod Lines
pub mod Numerals
pub mod Commands
pub mod Names
pub mod Endings
pub mod Texts
