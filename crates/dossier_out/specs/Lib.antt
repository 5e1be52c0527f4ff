pub mod Jobs
pub mod Steps
pub mod Tables
pub mod Texts
