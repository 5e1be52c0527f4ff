pub mod Fronts
pub mod Digits
pub mod Signed
pub mod LongDigits
pub mod ClockTexts
pub mod Keys
pub mod Accepts
pub mod Once
