pub mod Engine
pub mod Calls
pub mod Desk
pub mod Profile
pub mod Replay
