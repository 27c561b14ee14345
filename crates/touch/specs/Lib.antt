pub mod Touch
pub mod Bands
