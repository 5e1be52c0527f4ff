pub mod Asked
pub mod Top
pub mod Squeezed
