pub mod Numbered
pub mod FirstBads
pub mod SkillSets
pub mod Turns
pub mod Takings
pub mod InRanges
pub mod OneReadings
