pub mod Uses
pub mod Ends
pub mod Rules
