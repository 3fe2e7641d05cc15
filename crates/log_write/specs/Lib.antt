pub mod Times
pub mod Xes
