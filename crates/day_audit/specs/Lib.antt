pub mod Belongs
pub mod Audited
pub mod Kept
