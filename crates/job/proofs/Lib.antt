-- The laws that other crates may cite, and job A's printed text.
pub mod Values
pub mod Following
pub mod Accepted
pub mod Lines
pub mod JobA
pub mod Refusals
pub mod Turns
