pub mod Entering
pub mod Rowing
