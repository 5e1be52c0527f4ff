pub mod Sheet
pub mod Lines
pub mod Rules
pub mod Reading
pub mod Table
