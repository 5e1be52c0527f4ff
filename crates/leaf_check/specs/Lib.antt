pub mod Keys
pub mod Prices
pub mod Rows
pub mod Runs
pub mod Reader
