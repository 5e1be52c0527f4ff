pub mod Parts
pub mod Bundles
pub mod Pieces
