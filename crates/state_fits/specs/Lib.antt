pub mod Fits
pub mod Fresh
pub mod Points
