pub mod RepairLaws
pub mod PointsHold
