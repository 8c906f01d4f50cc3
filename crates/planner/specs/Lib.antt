pub mod Plan
pub mod Carried
pub mod Begun
pub mod Reached
pub mod Going
pub mod Finished
pub mod Planning
