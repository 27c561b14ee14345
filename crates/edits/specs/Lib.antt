pub mod Edits
pub mod History
