pub mod Methods
mod Example
mod Parts
mod Instances
pub mod OneFrame
mod EachGroup
mod EachMember
mod Scenes
mod CallScenes
mod ClassScenes
pub mod ValueMap
pub mod EffectMap
pub mod ControlMap
pub mod RunMap
pub mod Values
pub mod Back
pub mod Keeping
pub mod EffectKeeps
pub mod ControlKeeps
pub mod Runs
pub mod Literals
pub mod Paths
pub mod Bounds
pub mod Order
pub mod Least
