pub mod Rays
pub mod Turns
pub mod Keeps
pub mod Runs
pub mod Spreads
pub mod Quiets
pub mod Trails
