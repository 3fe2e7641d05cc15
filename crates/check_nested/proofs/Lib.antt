pub mod BlockLaws
pub mod WalkLaws
pub mod PoolLaws
