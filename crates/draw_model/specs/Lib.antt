pub mod Drawn
pub mod Content
pub mod Points
