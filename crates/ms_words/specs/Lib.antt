pub mod Words
pub mod Throwables
pub mod Relations
pub mod Padding
pub mod Inputs
pub mod Kept
pub mod Items
pub mod Descriptors
