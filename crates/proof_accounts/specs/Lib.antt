pub mod Accounts
pub mod Calls
pub mod Logs
pub mod Session
