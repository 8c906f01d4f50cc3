pub mod Ends
pub mod Stores
pub mod ButEdges
