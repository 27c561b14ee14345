pub mod Marked
pub mod Painted
