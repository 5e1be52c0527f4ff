pub mod Splits
pub mod Way
