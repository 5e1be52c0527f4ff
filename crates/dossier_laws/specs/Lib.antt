pub mod Law
pub mod Listed
pub mod Sheet
pub mod Days
pub mod Shown
