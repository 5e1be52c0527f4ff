pub mod Firsts
pub mod Goes
