pub mod MarkLaws
pub mod CallLaws
pub mod ExcessLaws
