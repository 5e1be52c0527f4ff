pub mod Places
pub mod Dossiers
pub mod Added
