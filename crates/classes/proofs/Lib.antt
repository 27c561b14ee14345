pub mod Naming
pub mod Ending
pub mod Laws
