pub mod Rewards
pub mod Opening
pub mod Loss
