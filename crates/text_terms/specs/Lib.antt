pub mod Terms
pub mod Tails
