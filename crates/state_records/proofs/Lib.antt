pub mod FourLaws
