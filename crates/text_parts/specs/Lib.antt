pub mod Parts
pub mod Tails
