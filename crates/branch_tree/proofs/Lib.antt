pub mod Walked
pub mod Preorders
