pub mod Days
pub mod Pieces
pub mod Says
