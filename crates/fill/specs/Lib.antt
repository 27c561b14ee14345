pub mod Phases
pub mod Modes
pub mod Passes
