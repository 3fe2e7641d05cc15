pub mod Trip
pub mod Blocks
