pub mod Near
pub mod Cover
pub mod Own
pub mod Lent
