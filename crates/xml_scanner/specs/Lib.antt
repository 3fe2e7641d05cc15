pub mod Openings
pub mod Passages
pub mod Tags
pub mod Moves
