pub mod Runs
pub mod Names
pub mod Ranges
pub mod Taken
