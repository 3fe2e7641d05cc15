pub mod CallLaws
pub mod KeepsValid
pub mod PollLaws
pub mod JudgeLaws
pub mod DeskLaws
pub mod ProfileLaws
