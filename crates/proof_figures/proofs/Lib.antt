pub mod CountLaws
pub mod Leaves
pub mod OwnRecord
pub mod EveryStep
