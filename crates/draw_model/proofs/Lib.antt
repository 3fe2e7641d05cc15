pub mod DrawnLaws
pub mod KeptLaws
pub mod PointsHold
