pub mod Input
pub mod Outputs
pub mod Says
