pub mod Lines
pub mod Events
pub mod Statuses
pub mod Conversations
pub mod Feeding
pub mod Turns
