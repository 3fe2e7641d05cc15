pub mod Picked
pub mod KindLaws
pub mod Elements
