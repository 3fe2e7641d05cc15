pub mod PartLaws
pub mod Points
