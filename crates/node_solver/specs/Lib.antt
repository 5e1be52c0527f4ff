pub mod Plans
pub mod Meeting
pub mod Settled
pub mod Causes
pub mod Steps
pub mod Loose
