pub mod LinesLeft
pub mod JudgeLaws
pub mod Faults
