pub mod Spelling
pub mod Points
