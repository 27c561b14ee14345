pub mod Flat
pub mod Structs
