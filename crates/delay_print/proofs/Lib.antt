pub mod Counted
pub mod Words
