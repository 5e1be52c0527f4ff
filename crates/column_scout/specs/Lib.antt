pub mod Fresh
pub mod Scouted
