pub mod Shown
pub mod Lengths
