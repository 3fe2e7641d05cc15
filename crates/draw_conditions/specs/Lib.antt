pub mod Outline
pub mod Saying
pub mod Words
pub mod Conditions
pub mod Points
