pub mod Texts
pub mod Tallies
pub mod Firsts
pub mod Joined
