pub mod Sheets
pub mod Says
pub mod Words
pub mod Asked
