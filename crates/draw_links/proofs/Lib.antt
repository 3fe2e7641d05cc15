pub mod LinkLaws
pub mod NoteLaws
pub mod TargetLaws
pub mod TestLaws
pub mod PointsHold
