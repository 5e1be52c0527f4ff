pub mod Shares
pub mod Rewards
