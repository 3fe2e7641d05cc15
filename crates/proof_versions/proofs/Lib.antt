pub mod Theorems
pub mod Laws
pub mod Elements
pub mod Sites
pub mod Steps
