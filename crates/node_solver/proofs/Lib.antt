pub mod Earning
pub mod Growing
pub mod MeetingLemmas
pub mod Ending
