pub mod ByteLaws
pub mod ReferenceLaws
