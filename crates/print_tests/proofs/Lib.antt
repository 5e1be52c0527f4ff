pub mod Taken
