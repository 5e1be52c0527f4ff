pub mod Doing
pub mod Listing
pub mod StuckTeams
pub mod Pricing
pub mod Closed
