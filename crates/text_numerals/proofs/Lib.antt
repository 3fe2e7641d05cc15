pub mod NumberLaws
pub mod AnswerLaws
pub mod Spelled
pub mod Points
pub mod NumeralLaws
