pub mod Who
pub mod Numbers
