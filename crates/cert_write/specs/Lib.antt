pub mod Causes
pub mod Tables
pub mod Leaves
pub mod Given
pub mod Dossiers
pub mod Counted
pub mod Walks
pub mod Desks
