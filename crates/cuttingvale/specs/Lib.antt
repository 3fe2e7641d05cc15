pub mod Boundary
pub mod Release
