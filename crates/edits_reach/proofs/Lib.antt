pub mod Ways
pub mod Tests
pub mod Weights
pub mod Going
pub mod Rays
