pub mod Kept
pub mod Days
pub mod Fits
pub mod Why
