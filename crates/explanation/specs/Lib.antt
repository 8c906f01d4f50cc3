pub mod Explained
pub mod Listing
