pub mod Places
pub mod Sequence
pub mod Continued
