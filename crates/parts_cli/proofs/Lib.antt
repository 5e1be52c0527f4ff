pub mod Asked
pub mod Top
