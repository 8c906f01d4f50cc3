pub mod Taken
pub mod DefaultSchedule
