pub mod Keys
pub mod Adding
mod Lookups
pub mod Forward
pub mod Walks
mod Targets
pub mod Exact
pub mod Only
pub mod Laid
mod Formed
mod Whole
mod Example
