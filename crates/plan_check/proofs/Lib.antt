pub mod Ranges
pub mod NextEdge
pub mod Watching
pub mod Checked
mod Passing
