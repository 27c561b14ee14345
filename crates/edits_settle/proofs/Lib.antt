pub mod Relabelled
pub mod Settlings
pub mod Restorings
