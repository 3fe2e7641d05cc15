pub mod OutlineLaws
pub mod ByteLaws
pub mod SayingLaws
pub mod SpelledLaws
pub mod ConditionLaws
pub mod PointsHold
