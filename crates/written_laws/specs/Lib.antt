pub mod Proved
pub mod ReadBack
pub mod Solved
pub mod Told
