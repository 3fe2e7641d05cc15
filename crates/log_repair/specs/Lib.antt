pub mod Repair
pub mod Points
