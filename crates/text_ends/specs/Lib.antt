pub mod Rewriting
pub mod Room
pub mod Points
