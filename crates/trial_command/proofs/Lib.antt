pub mod DossierBytes
pub mod LastEntry
pub mod OneRound
pub mod Runs
