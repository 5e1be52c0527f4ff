pub mod State
pub mod Kept
pub mod Along
pub mod Rounding
pub mod Shares
pub mod Legal
