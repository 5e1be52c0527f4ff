pub mod Free
pub mod Adding
pub mod Obstacles
