pub mod History
pub mod Matching
