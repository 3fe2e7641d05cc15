pub mod MarkLaws
pub mod SummaryLaws
