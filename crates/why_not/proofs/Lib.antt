pub mod Rising
pub mod Free
pub mod Texts
pub mod Rows
