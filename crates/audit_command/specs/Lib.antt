pub mod Days
pub mod Events
pub mod Reads
pub mod Texts
pub mod Says
pub mod Fine
pub mod Planned
