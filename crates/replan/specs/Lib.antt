pub mod Rounds
pub mod Counts
pub mod Given
pub mod Staying
pub mod Planning
pub mod Kept
pub mod Entries
pub mod Alone
