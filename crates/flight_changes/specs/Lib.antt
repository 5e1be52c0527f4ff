pub mod Faults
pub mod Limits
pub mod Times
pub mod Kept
pub mod Named
