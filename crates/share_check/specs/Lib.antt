pub mod CellSums
pub mod Summed
