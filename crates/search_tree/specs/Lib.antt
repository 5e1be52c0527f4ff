pub mod Numbered
pub mod Ways
pub mod Kept
pub mod Keyed
pub mod Aged
pub mod Numbers
pub mod States
