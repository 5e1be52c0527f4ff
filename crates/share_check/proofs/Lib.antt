pub mod Added
pub mod Routes
pub mod Parts
pub mod Loose
