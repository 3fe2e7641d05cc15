pub mod ReadingLaws
pub mod WordLaws
pub mod KeepLaws
pub mod Points
