pub mod Promises
pub mod Demands
pub mod Polls
