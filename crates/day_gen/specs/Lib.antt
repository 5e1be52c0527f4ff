pub mod Draws
pub mod Day
