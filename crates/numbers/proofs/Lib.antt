pub mod Laws
pub mod Meaning
pub mod Order
pub mod Sign
