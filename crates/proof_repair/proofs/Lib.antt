pub mod Given
pub mod Closings
pub mod Repairs
pub mod Beginnings
pub mod Lawful
