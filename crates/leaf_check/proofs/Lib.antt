pub mod Listed
pub mod Priced
pub mod Tabled
pub mod RunNumbers
pub mod Minutes
pub mod Read
pub mod Lines
pub mod Told
