pub mod Stops
pub mod Days
