mod Example
pub mod Repeated
pub mod Steps
pub mod Only
pub mod Spelling
pub mod Pool
pub mod Attributes
pub mod Instructions
pub mod Decoding
pub mod Walking
pub mod Signatures
pub mod CodeParts
pub mod MethodParts
pub mod Files
mod Exact
pub mod ClassExample
mod Loops
mod Numbering
mod Keys
mod Members
mod Lying
pub mod Distinct
pub mod Held
mod Places
