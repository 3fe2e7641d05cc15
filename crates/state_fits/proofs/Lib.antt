pub mod PointsHold
pub mod PartLaws
pub mod FitsLaws
pub mod FreshLaws
pub mod UsableLaws
pub mod FreshFits
