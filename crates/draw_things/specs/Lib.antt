pub mod Things
pub mod Names
