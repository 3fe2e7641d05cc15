pub mod Inside
pub mod Cursors
pub mod Logs
pub mod Points
