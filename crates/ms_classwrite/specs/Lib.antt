pub mod Plans
pub mod Layout
pub mod Lines
pub mod ReadBack
