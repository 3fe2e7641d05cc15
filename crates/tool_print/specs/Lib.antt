pub mod Judged
pub mod Lent
