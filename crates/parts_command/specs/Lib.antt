pub mod Texts
pub mod Says
