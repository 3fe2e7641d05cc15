pub mod Document
pub mod Around
pub mod Decoding
pub mod Points
