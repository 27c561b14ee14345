pub mod Looks
pub mod EarlyLoop
pub mod Sixteen
