pub mod OldLogs
pub mod Points
