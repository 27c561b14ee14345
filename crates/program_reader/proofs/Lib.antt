pub mod Laws
pub mod Readings
pub mod Once
pub mod Long
pub mod Wholes
