pub mod ChecksHold
pub mod KeepsFitting
pub mod ExitsOnce
pub mod NumberGiven
pub mod NeverSaturates
