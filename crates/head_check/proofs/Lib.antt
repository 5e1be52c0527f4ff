pub mod Steps
pub mod Listed
pub mod HeadRows
pub mod HeadSteps
pub mod GivenRow
pub mod FrozenSteps
