pub mod RuleLaws
pub mod TableLaws
