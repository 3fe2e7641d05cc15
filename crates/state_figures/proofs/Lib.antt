pub mod PointsHold
pub mod CountLaws
pub mod RecordLaws
pub mod DeskLaws
