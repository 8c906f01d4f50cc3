-- What is stated, in reading order.
pub mod Cases
pub mod Instance
pub mod Apart
pub mod Barred
pub mod Costs
pub mod Opinion
pub mod Lead
pub mod Defaults
pub mod Reasons
