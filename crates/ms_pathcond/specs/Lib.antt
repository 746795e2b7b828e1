pub mod Literals
pub mod Slices
pub mod Gathered
pub mod Mixing
pub mod Growing
