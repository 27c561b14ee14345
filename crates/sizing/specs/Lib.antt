pub mod Points
pub mod Sizing
