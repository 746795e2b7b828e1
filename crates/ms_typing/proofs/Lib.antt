pub mod Classes
pub mod Joins
pub mod Sound
pub mod Total
pub mod Least
pub mod Monotone
pub mod Complete
mod Written
mod JoinTable
mod EachTaken
mod EachLeft
mod EachFault
mod Computed
mod Loops
mod Handlers
mod Making
mod Orders
pub mod Values
pub mod Safe
pub mod Lasting
