pub mod Added
pub mod Day
pub mod Told
pub mod Named
