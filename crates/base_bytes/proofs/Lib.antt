pub mod OrLaws
pub mod PieceLaws
pub mod PastLaws
pub mod SameLaws
