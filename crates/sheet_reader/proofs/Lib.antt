pub mod Told
pub mod Rows
pub mod Judged
pub mod Priced
pub mod TeamLines
pub mod Verdicts
