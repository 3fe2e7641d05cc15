pub mod NameLaws
pub mod ScanLaws
pub mod RefusedLaws
