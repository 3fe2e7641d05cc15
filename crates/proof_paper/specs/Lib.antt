pub mod Decoders
pub mod Calls
