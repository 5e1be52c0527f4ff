pub mod Digits
pub mod Pieces
pub mod Cut
pub mod Clocks
pub mod Fields
pub mod Schemas
pub mod OneFault
