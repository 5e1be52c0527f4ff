mod Planned
mod Division
mod Texts
mod Rows
mod Made
