pub mod OneCall
pub mod OneInstance
pub mod Histories
pub mod RunsAndPolls
pub mod LogHistories
pub mod SessionHolds
