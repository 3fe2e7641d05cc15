pub mod Laws
pub mod LineLaws
pub mod PointsHold
