pub mod Input
pub mod Stages
