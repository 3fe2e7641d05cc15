pub mod StampLaws
pub mod Points
