pub mod Items
pub mod Poll
