pub mod MinutePrices
pub mod Possible
pub mod Bound
pub mod Run
pub mod Squeezed
