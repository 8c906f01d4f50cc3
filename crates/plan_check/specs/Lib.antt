pub mod Range
pub mod Past
pub mod Watched
