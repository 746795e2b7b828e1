mod Example
pub mod Growing
pub mod Grown
pub mod Once
pub mod Adding
pub mod Same
pub mod Valuing
