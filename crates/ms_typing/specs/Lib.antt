pub mod Kinds
pub mod Rules
pub mod Verifier
pub mod Solutions
pub mod Typed
