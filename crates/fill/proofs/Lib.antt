pub mod Passes
pub mod Swings
pub mod Meaning
pub mod Laws
