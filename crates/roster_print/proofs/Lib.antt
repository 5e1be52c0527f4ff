pub mod Words
pub mod Texts
pub mod Ordered
pub mod Turns
pub mod Legal
