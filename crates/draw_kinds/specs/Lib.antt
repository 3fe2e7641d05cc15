pub mod Counting
pub mod Roles
pub mod Points
