pub mod Scan
pub mod Run
pub mod Rays
pub mod Spread
pub mod Quiet
