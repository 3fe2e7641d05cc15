pub mod PointsHold
