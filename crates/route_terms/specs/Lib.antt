pub mod Routes
pub mod Keys
pub mod KeyLaws
pub mod Named
pub mod NameLaws
pub mod Kept
