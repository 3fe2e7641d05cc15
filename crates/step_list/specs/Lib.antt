pub mod Listing
pub mod Scanned
