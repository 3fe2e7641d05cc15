pub mod FoundLaws
pub mod ValueLaws
