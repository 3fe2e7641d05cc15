pub mod ThingsLaws
pub mod ElementLaws
pub mod PoolLaws
pub mod OperandLaws
