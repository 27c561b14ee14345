pub mod Orders
pub mod Outputs
pub mod Lent
pub mod Lists
pub mod Sums
pub mod Keys
