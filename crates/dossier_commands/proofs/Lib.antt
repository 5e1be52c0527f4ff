pub mod Refusals
pub mod LineByLine
pub mod Said
pub mod YesLine
mod HandedOut
