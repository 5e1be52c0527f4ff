mod Leasts
mod Kept
mod Sums
mod Tests
