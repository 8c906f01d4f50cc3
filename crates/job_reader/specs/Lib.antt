pub mod ButEdges
