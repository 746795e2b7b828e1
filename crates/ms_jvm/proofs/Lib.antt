pub mod Parameters
pub mod Codes
pub mod Standing
pub mod Following
pub mod Finished
pub mod Ending
pub mod Entering
mod Example
mod Segmented
mod Choosing
mod Marking
