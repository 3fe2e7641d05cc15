pub mod Syntax
pub mod States
pub mod Evaluation
pub mod Processes
pub mod Collaborations
