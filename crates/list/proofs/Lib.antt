pub mod Rows
pub mod Laws
