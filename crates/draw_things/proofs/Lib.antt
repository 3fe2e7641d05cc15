pub mod NameLaws
pub mod AttributeLaws
pub mod SortLaws
