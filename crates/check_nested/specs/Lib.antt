pub mod Splits
