pub mod Found
pub mod Traces
pub mod Laid
pub mod Ended
pub mod Counted
