pub mod Exact
pub mod Ring
pub mod Scales
pub mod Quotients
pub mod Ratios
pub mod Mixed
