pub mod Ends
pub mod TwoVertices
pub mod StartIsGoal
pub mod Cases
pub mod Instance
