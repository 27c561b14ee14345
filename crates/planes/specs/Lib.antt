pub mod Planes
pub mod Split
