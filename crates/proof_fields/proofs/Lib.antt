pub mod Kept
pub mod Drawn
pub mod Theorems
