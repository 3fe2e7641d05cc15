pub mod Places
pub mod Instances
pub mod Versions
