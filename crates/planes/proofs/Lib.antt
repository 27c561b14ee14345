pub mod Sums
pub mod Laws
