pub mod Days
pub mod Listed
pub mod Filled
pub mod Frozen
