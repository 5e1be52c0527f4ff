pub mod More
pub mod Cuts
pub mod UsedPairs
pub mod OpenPairs
pub mod Valid
