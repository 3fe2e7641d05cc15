pub mod LengthLaws
pub mod ElementLaws
