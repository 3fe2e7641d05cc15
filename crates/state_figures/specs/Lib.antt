pub mod Figures
pub mod Points
