pub mod Outputs
pub mod Said
pub mod Ends
