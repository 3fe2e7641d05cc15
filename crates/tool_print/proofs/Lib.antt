pub mod JudgedLaws
pub mod LentLaws
