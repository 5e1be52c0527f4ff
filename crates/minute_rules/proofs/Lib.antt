pub mod Decided
pub mod Most
pub mod Visits
pub mod Found
pub mod Earned
pub mod Taken
