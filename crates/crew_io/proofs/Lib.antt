pub mod Pieces
pub mod Ranges
pub mod Room
pub mod Stream
