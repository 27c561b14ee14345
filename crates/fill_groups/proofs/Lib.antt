pub mod Cover
pub mod Lines
