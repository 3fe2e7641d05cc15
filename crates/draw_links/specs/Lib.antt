pub mod Links
pub mod Notes
pub mod Points
