pub mod Pools
pub mod Fits
pub mod Visits
pub mod Follows
