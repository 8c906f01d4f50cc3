pub mod Layout
pub mod Holds
pub mod Space
