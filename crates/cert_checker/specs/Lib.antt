pub mod Rooms
pub mod Due
pub mod Rules
pub mod Checked
pub mod Kept
pub mod Said
