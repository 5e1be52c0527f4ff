pub mod Refusals
pub mod LineByLine
pub mod Said
