pub mod Spans
pub mod UpTo
pub mod Fetching
pub mod Handling
pub mod Responding
pub mod Fed
pub mod Standing
pub mod Scanning
pub mod Alike
pub mod Ending
pub mod Telling
mod Example
