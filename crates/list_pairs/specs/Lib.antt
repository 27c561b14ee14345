pub mod Paired
pub mod Ranges
