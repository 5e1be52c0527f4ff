pub mod Priced
pub mod SoFar
pub mod Ended
