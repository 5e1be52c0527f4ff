pub mod Reversed
pub mod Numbers
pub mod Ways
pub mod Leaves
pub mod Somewhere
