pub mod Standing
pub mod Segments
pub mod Keys
pub mod Outcomes
