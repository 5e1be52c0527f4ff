pub mod Numbers
pub mod Verdict
