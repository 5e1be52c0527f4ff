pub mod Trees
pub mod Pools
pub mod Dossiers
pub mod Numbers
pub mod Steps
pub mod Staying
