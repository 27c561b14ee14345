mod Filled
mod Printed
mod Hatch
pub mod Claim
