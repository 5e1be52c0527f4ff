pub mod Laws
pub mod SoFar
pub mod Follows
pub mod Single
pub mod Reaches
pub mod Heads
pub mod Written
