pub mod RewriteLaws
pub mod RoomLaws
pub mod SideLaws
pub mod PointsHold
