pub mod Tasks
pub mod Alone
pub mod Delays
pub mod Halts
pub mod Says
