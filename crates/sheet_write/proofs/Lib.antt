mod Rows
mod Tables
mod Good
mod Texts
mod TeamsSoFar
mod Whole
