pub mod Faults
pub mod Short
pub mod SoFar
pub mod Stops
pub mod Once
pub mod Words
