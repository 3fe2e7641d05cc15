pub mod ShiftLaws
pub mod MessageLaws
pub mod SlotLaws
pub mod QueueLaws
pub mod ReadLaws
pub mod ChangeLaws
pub mod EqualLaws
