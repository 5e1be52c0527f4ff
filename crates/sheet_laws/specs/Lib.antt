pub mod Held
pub mod Priced
