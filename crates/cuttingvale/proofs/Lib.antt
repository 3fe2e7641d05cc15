pub mod BoundaryLaws
