pub mod Changes
pub mod Faults
pub mod Openings
pub mod Closings
pub mod Fresh
pub mod Calls
pub mod Laws
