pub mod FourLaws
pub mod PutLaws
