pub mod Writing
pub mod Listed
