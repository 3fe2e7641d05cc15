pub mod LineLaws
pub mod Points
