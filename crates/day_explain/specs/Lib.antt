pub mod Telling
pub mod Text
pub mod Says
