pub mod Tokens
pub mod Markup
pub mod Spans
pub mod Points
pub mod Staying
pub mod Ahead
pub mod Leaps
