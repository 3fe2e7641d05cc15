pub mod Names
pub mod References
