pub mod Fresh
pub mod Seen
