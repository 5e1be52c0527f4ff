pub mod Lines
pub mod Counts
pub mod Expected
pub mod Typed
