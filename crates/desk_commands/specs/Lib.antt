pub mod Rounds
pub mod Says
