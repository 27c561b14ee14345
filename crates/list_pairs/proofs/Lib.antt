pub mod Layings
pub mod Wholes
pub mod Laws
