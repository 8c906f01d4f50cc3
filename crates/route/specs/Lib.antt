pub mod Trace
pub mod Costs
pub mod Backs
pub mod Kept
