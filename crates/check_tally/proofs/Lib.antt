pub mod TallyLaws
pub mod RegionLaws
