pub mod Skipping
pub mod Points
