pub mod Ahead
pub mod Rules
