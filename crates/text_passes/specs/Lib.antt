pub mod Model
pub mod Passes
