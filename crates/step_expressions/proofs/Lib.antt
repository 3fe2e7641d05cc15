pub mod OrderLaws
pub mod SuitLaws
