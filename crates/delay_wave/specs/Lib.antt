pub mod Ends
pub mod Delays
pub mod Waits
pub mod Order
pub mod Steps
