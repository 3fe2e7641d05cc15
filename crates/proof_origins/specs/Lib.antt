pub mod Initial
pub mod Display
pub mod Stuck
