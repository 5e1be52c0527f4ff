pub mod Named
pub mod Alone
pub mod Begins
pub mod Forms
pub mod Once
pub mod OneRefusal
pub mod Tells
pub mod Gives
