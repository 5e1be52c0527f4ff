pub mod Input
pub mod Says
