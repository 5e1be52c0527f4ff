pub mod RunSteps
pub mod Keys
pub mod FirstWords
