pub mod Writing
pub mod Each
pub mod Answered
pub mod Reasons
