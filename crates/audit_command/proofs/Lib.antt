pub mod DayLaws
pub mod Coming
pub mod DayLines
pub mod OneEvent
pub mod Going
pub mod Parts
pub mod Told
pub mod Planned
