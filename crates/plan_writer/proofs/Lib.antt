pub mod Measuring
pub mod Laying
pub mod Writer
