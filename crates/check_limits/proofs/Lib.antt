pub mod SameLaws
pub mod BitLaws
pub mod BoundLaws
pub mod PointsHold
