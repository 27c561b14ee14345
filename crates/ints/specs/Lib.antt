pub mod Bound
pub mod Ring
pub mod Order
pub mod Casts
pub mod Differences
