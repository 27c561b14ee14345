pub mod First
pub mod Cells
pub mod Paths
pub mod Floods
pub mod Checks
pub mod Ways
pub mod Counts
pub mod Passes
