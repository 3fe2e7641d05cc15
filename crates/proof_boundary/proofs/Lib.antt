pub mod Promises
pub mod Firmness
pub mod Lengths
pub mod DeskCalls
pub mod Preconditions
