pub mod LineLaws
pub mod Exactly
pub mod OwnState
pub mod Resumed
pub mod Cuts
pub mod Firm
