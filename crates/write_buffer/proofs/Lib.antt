pub mod OverLaws
