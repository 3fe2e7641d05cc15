pub mod BarLaws
pub mod MarkLaws
pub mod FillLaws
pub mod SizeLaws
pub mod PoolLaws
pub mod TurnLaws
