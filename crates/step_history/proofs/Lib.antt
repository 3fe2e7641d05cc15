pub mod CountLaws
pub mod MatchLaws
pub mod HistoryLaws
pub mod CodeLaws
