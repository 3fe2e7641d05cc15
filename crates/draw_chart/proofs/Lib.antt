pub mod PutLaws
pub mod MapLaws
