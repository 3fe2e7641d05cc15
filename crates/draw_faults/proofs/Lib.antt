pub mod OnceLaws
pub mod RepeatLaws
pub mod UnsettledLaws
pub mod PointsHold
