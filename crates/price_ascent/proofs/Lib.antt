pub mod Bounds
pub mod Firsts
