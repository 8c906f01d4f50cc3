pub mod Scanning
pub mod Expanding
pub mod Due
pub mod Keys
