pub mod Days
pub mod Texts
pub mod Stays
pub mod Said
pub mod Applied
pub mod Planned
pub mod Passed
