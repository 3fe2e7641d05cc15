pub mod PoolLaws
pub mod TableLaws
