pub mod Bound
pub mod Classes
pub mod Found
pub mod Visits
