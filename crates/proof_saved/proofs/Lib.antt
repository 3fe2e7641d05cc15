pub mod SavedStates
