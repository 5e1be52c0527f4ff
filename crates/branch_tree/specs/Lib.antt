pub mod Trees
pub mod Entries
pub mod Levels
pub mod Kept
