pub mod KindLaws
pub mod PointsHold
