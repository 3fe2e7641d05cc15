pub mod ClassLaws
pub mod TokenLaws
pub mod FormLaws
pub mod LocalLaws
pub mod Points
pub mod PlaceLaws
