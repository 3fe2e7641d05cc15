pub mod Amiss
pub mod Points
pub mod Once
