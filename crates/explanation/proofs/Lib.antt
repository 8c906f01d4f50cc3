pub mod Listing
pub mod Lists
pub mod Explaining
