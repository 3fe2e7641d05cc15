pub mod StateLaws
pub mod DecidingLaws
pub mod StepLaws
