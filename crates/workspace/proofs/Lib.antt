pub mod Two
pub mod Written
pub mod Spaces
pub mod Firsts
pub mod Holding
pub mod Numbered
pub mod RoundStart
