pub mod Growing
pub mod Pivoted
pub mod Over
pub mod Rounded
pub mod Solved
