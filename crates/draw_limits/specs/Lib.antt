pub mod Excess
pub mod Points
