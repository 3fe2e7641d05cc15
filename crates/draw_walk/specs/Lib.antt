pub mod Walk
pub mod Points
