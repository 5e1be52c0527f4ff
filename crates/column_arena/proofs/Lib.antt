pub mod Numbers
pub mod Tables
pub mod Keeping
pub mod Finding
pub mod Legality
pub mod Renumbering
pub mod Carrying
