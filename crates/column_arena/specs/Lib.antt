pub mod Columns
pub mod Legal
pub mod Uses
pub mod Kept
pub mod Carried
