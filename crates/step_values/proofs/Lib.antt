pub mod TupleLaws
pub mod ValueLaws
