pub mod Shown
pub mod Writing
