pub mod Order
pub mod Output
