pub mod Turns
pub mod Cases
pub mod Faults
pub mod Closings
