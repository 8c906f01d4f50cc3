pub mod Lead
pub mod Asked
