pub mod Given
pub mod Teams
pub mod Sheets
