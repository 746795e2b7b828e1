pub mod Methods
pub mod Faults
pub mod Laws
pub mod Told
pub mod Checking
