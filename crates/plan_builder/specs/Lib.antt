pub mod Schedules
pub mod Kept
