pub mod Parts
pub mod Table
pub mod Offers
pub mod Queues
pub mod Methods
