pub mod Visits
pub mod Within
