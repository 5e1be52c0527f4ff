pub mod Due
pub mod Checked
pub mod Kept
