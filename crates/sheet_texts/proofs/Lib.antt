pub mod Lines
pub mod One
pub mod Read
pub mod Once
