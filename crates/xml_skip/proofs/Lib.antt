pub mod Laws
pub mod PointsHold
