pub mod Rounds
pub mod Picking
pub mod Bits
pub mod Mixed
pub mod SliceLaws
pub mod Kept
pub mod Together
