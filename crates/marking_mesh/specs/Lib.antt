pub mod Mesh
pub mod Faults
pub mod Ranges
